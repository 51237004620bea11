-- What is shown of every exported function, and how a struct behind a pointer lies in memory.
pub mod Exported
pub mod Promises
pub mod States
