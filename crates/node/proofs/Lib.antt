-- What the proofs share, and that each contract settles its function.
pub mod Turns
pub mod Settled
