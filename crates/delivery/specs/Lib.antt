-- Demand 3: what arrives is what was sent. Run has the statement, Laws the proof.
pub mod Run
pub mod Wire
pub mod Witness
pub mod WireWitness
pub mod Laws
