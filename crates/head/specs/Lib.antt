-- The head of the water table: what a float means, its height in µm, and its 32 bits.
pub mod Level
pub mod Class
pub mod Pattern
pub mod LevelLaws
pub mod ClassLaws
pub mod PatternLaws
