-- What a host sees: records as numbers, and what each call gives.
pub mod Shapes
pub mod Calls
