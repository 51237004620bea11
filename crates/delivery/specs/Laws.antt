-- The proof of the theorem in Run, by topic: marks of the sender, what the receiver stored, the invariant over events; then how a run keeps the premises as it grows, the run of
-- Witness, for each premise a run that shows it needed, and the theorem over bytes.
pub mod Marks
pub mod Calls
pub mod Stored
pub mod Theorem
pub mod Kept
pub mod Witness
pub mod Needed
pub mod Wire
pub mod WireWitness
