-- What the proofs share, and that each contract settles its function.
pub mod Signs
pub mod Added
pub mod Printable
pub mod Zeros
pub mod Settled
