-- The theorems of the link. `Site` is the one to read, then `Theorem`; the others lead to it.
pub mod Lists
pub mod Node
pub mod Row
pub mod Told
pub mod Fates
pub mod Theorem
pub mod Site
-- a worked run
pub mod Cases
