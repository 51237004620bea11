-- Laws about the definitions, by topic.
pub mod Cases
pub mod Moves
pub mod Table
pub mod State
pub mod Steps
pub mod Answers
pub mod Payloads
pub mod Stored
pub mod Reading
pub mod Sack
pub mod Numbers
pub mod Shape
pub mod Runs
