pub mod MergingLemmas
pub mod Parts
pub mod Sizes
pub mod Shares
pub mod Differing
pub mod EmptyConditions
pub mod Negating
