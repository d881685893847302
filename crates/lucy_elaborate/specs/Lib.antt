pub mod Limits
pub mod Objects
pub mod Starts
pub mod Changes
pub mod Txns
pub mod Segments
pub mod Plans
