-- The theorem of Accuracy's statement. It stands here, apart from the laws that it rests on, so that an edit of the statement is refused by its proof.
pub mod Theorem
