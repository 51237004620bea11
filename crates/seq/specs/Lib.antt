-- The port's reading of document 01 on sequence numbers and offsets: definitions, and laws about them.
pub mod Seq
pub mod Laws
