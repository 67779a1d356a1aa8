-- What several proofs share, and that each contract settles its function.
pub mod Alike
pub mod Settled
pub mod Changed
-- laws of the calls, for the crates above
pub mod CallLaws
pub mod Each
pub mod Kept
pub mod Back
