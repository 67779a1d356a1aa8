-- What belongs to no one function.
pub mod Settled
pub mod Turns
pub mod Chunks
-- laws of the site's step, for the crates above
pub mod SiteLaws
pub mod SheetSteps
