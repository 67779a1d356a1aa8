-- One cell's outbox, the node's end of the link: its form, and what each call gives.
pub mod Outbox
pub mod Brought
-- laws of these, for the crates above
pub mod Counts
-- what the laws and the code's own contracts lean on
pub mod Laws
