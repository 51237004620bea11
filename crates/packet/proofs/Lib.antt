pub mod Numbers
pub mod Promises
pub mod Step
pub mod Version
