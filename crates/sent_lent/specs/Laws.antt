-- Laws about the definitions beside this file, a file for each topic.
pub mod LentPackets
pub mod LentState
pub mod LentSamples
pub mod LentHead
