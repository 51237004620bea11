-- The port's reading of document 01 and BEP 29 on packets: definitions by topic, and laws about them under Laws.
pub mod Kind
pub mod Sack
pub mod Layout
pub mod Chain
pub mod Decode
pub mod Encode
pub mod RoundTrips
pub mod Answers
pub mod Marked
pub mod Laws
