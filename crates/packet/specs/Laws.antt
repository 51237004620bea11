-- Laws about the definitions beside this file, a file for each topic.
pub mod Kind
pub mod Sack
pub mod Number
pub mod Layout
pub mod Chain
pub mod Decode
pub mod Encode
pub mod OneToOne
pub mod Fields
pub mod ReadWritten
pub mod WriteRead
pub mod RoundTrips
