-- Laws of floats that the proofs of the functions cite, and what is shown of every public function.
mod Ends
mod Negated
pub mod Promises
