-- The port's reading of document 01 on sent packets.
pub mod Tracker
pub mod Loss
pub mod Transmit
pub mod Ack
pub mod Hear
pub mod Lost
pub mod Read
pub mod Sound
pub mod Answers
pub mod Marked
pub mod Laws
