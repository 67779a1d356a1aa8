-- What the cases start from.
pub mod Plots
