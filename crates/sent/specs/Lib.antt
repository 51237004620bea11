-- The tracker as one value and over places that are lent to it: the state, its soundness test, and what each function answers of it.
pub mod Answers
pub mod Full
pub mod State
pub mod Whole
pub mod Laws
