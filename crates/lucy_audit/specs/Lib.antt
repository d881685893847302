pub mod Differences
pub mod Laws
pub mod Pairs
pub mod Checks
pub mod Tallies
