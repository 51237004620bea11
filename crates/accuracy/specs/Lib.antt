-- Request No. 7: how far the float is from the truth. Accuracy has the statement, Rows the page's rows, Laws what the theorem (proofs/Theorem) rests on.
pub mod Accuracy
pub mod Rows
pub mod Laws
