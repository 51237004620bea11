-- What the proof of the statement in Accuracy rests on, by topic: one rounding, floats as approximations of fractions, the gain, the product of the
-- rule, its whole part. The theorem itself is proofs/Theorem.
pub mod Rounding
pub mod Approx
pub mod Gain
pub mod Product
pub mod Cut
