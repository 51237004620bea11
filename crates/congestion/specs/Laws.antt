-- Laws about the definitions, by topic.
pub mod Trip
pub mod Window
pub mod Numbers
pub mod Hold
pub mod Whole
pub mod Rust
