-- That each contract settles its function.
pub mod Settled
