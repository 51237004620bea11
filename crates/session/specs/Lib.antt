-- The port's reading of document 02, No. 3: a recorded sender session, and what is printed for it.
pub mod Format
pub mod Lines
pub mod Case
pub mod Check
pub mod Answers
pub mod Replay
pub mod Laws
