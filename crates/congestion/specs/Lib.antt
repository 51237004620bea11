-- The port's reading of document 01 and BEP 29 on congestion.
pub mod Settings
pub mod Trip
pub mod Window
pub mod Numbers
pub mod Rust
pub mod Laws
