-- Laws about the definitions beside this file, a file for each topic.
pub mod Checks
pub mod Told
pub mod OneToOne
pub mod Hear
pub mod Sample
pub mod Move
pub mod Lost
