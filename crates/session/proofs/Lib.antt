mod Numbers
pub mod Promises
