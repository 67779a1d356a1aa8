-- Cards, readings, voids, entries, answers and the sheet as text.
pub mod Lines
pub mod Written
pub mod Reads
pub mod Readings
pub mod Voids
pub mod Cards
pub mod Printed
pub mod Cases
-- a law of these; the others stand in proofs/
pub mod BehindLaws
