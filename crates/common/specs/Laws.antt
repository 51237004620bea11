-- Laws on lists and numbers that several crates cite, a file for each topic.
pub mod Put
pub mod OneToOne
