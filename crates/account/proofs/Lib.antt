-- The theorems about runs. `Demand3` is the one to read, then `Corollaries`, and of [6] `Keeping` and `Collected`; the others lead to them.
pub mod Demand3
pub mod Corollaries
pub mod Keeping
pub mod Collected
pub mod Order
pub mod Induction
pub mod Groups
pub mod Sums
pub mod Signed
