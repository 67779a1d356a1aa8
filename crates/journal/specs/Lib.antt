-- What the program prints.
pub mod Entries
pub mod Book
pub mod Cases
