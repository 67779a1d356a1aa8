-- What belongs to no one function.
pub mod Fits
pub mod Sides
pub mod Loops
pub mod Parts
pub mod Verdict
pub mod Rooms
pub mod Settled
-- laws of the steps, for the crates above
pub mod SumLaws
pub mod CheckLaws
pub mod StepLaws
pub mod AnswerLaws
-- [3] a void, as the code steps it
pub mod StillLaws
