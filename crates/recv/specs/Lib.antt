-- The port's reading of document 01 on receiving.
pub mod Table
pub mod State
pub mod Receiver
pub mod Calls
pub mod Lent
pub mod Runs
pub mod Numbers
pub mod Marked
pub mod Laws
