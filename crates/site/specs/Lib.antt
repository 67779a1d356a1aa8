-- The site: a step over the lent slices, clearing, [6] collecting and the two forms of rows, the sheet of sums.
pub mod Rows
pub mod Site
pub mod Moves
pub mod Forms
pub mod Sheet
pub mod RowsLaws
pub mod MoveLaws
pub mod FormLaws
pub mod SheetLaws
-- what the code's own contracts lean on
pub mod Parts
