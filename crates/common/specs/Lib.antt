-- What is shown of every public function, answers by document 01's numbers, and laws that several crates cite.
pub mod Answer
pub mod Bytes
pub mod Case
pub mod Promise
pub mod Laws
