-- Laws about the definitions, by topic.
pub mod Delays
pub mod Samples
pub mod Base
pub mod Controller
pub mod OneToOne
