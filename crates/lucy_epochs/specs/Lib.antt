pub mod Records
pub mod Contributions
pub mod Rulings
pub mod Collections
pub mod Lists
pub mod Refusals
pub mod Sharing
pub mod Laws
