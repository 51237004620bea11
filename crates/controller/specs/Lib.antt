-- The port's reading of document 01 on delay samples and on the controller's calls.
pub mod Delays
pub mod Answers
pub mod Controller
pub mod Marked
pub mod Laws
