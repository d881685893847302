pub mod Orders
pub mod Walking
pub mod Kept
pub mod Sound
