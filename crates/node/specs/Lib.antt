-- What a node's host sees: an outbox and an entry as numbers, and what each call gives.
pub mod Numbers
pub mod Calls
-- laws of these
pub mod NumberLaws
pub mod CallLaws
pub mod NextLaws
