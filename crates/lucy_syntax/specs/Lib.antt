pub mod Input
pub mod Lists
pub mod Terms
pub mod Conditions
pub mod Objects
pub mod Plans
pub mod Parsing
pub mod Laws
