pub mod Crossing
pub mod Places
pub mod Seats
pub mod Merges
mod RawLemmas
