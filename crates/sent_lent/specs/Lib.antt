-- The tracker in lent memory: which state its head and its arrays make up.
pub mod Lent
pub mod Laws
