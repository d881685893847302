mod Acceptance
pub mod Crossing
mod LifeLemmas
mod Lists
mod Sameness
mod Settling
mod Adopting
mod Staying
