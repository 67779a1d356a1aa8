-- A reading and a notice as rows of numbers, there and back.
pub mod Shapes
-- laws of these, for the crates above
pub mod ShapeLaws
pub mod Rows
