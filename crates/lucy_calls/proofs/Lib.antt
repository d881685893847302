pub mod DigitLemmas
pub mod FieldLemmas
pub mod LineLemmas
pub mod NumberLemmas
pub mod OutcomeLemmas
pub mod SpacedLemmas
pub mod StepsBack
pub mod StepsKept
mod TextLoops
pub mod WorkBack
pub mod WorkKept
