pub mod Rationals
pub mod Laws
