-- Laws about the definitions beside this file, a file for each topic.
pub mod OneToOne
pub mod Kept
pub mod Sound
pub mod Transmit
pub mod Loss
pub mod Acknowledge
pub mod AckState
pub mod LostState
pub mod Packets
pub mod Keeps
pub mod Reached
pub mod History
pub mod Heard
pub mod Whole
pub mod Leaves
