-- The ledger of one plot's accepted steps, the runs that make it, and [6] runs with collections and moves among the calls.
pub mod Ledger
pub mod Run
pub mod Keeping
