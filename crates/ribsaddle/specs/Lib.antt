-- What the C functions answer, and what stands in the caller's memory after them.
pub mod Answer
pub mod Codec
pub mod Tracker
pub mod Receiver
pub mod Parts
pub mod Laws
