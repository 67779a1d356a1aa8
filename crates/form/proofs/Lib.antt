-- What belongs to no one function.
pub mod Digits
pub mod Marked
pub mod Turns
pub mod Rows
pub mod KeyTurns
pub mod Values
pub mod Settled
