-- What the proofs share, and that the contract settles its function.
pub mod Lent
pub mod Turns
pub mod Given
pub mod Settled
-- laws of the book
pub mod BookLaws
pub mod EntryLaws
pub mod LineNumbers
