pub mod Points
pub mod Merges
pub mod Formulas
pub mod Readings
pub mod Meanings
