-- Laws of the definitions.
pub mod Tracker
