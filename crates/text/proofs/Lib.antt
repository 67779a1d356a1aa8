-- What belongs to no one function.
pub mod Arrays
pub mod Zeros
pub mod Printable
pub mod Settled
-- laws of the texts, for the crates above
pub mod WrittenLaws
pub mod ReadLaws
pub mod ReadingLaws
pub mod VoidLaws
pub mod CardLaws
pub mod CardTexts
pub mod CardEnds
pub mod LineLaws
pub mod PrintLaws
