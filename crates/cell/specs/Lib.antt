-- The cell rules, in the order of document 01: ranges, refusals, the depth, the queue, the rules of an accepted step, the step, collecting, its cases.
pub mod Water
pub mod Limits
pub mod Sums
pub mod Ranges
pub mod Depth
pub mod Answers
pub mod Refusals
pub mod Queue
pub mod Rules
pub mod Step
pub mod Collect
pub mod Cases
-- laws of these, for the crates above; those of steps, sums and checks stand in proofs/
pub mod RangeLaws
pub mod QueueLaws
pub mod RuleLaws
pub mod CollectLaws
-- [2] the search that was retired
pub mod ShallowFirst
-- [5] the one share that there was
pub mod OneShare
-- what the laws and the code's own contracts lean on
pub mod Parts
pub mod Still
pub mod Bounds
pub mod Conj
pub mod Table
