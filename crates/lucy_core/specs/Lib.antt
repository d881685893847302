pub mod Worlds
pub mod Codes
pub mod Steps
pub mod Safety
pub mod Holding
pub mod Views
pub mod Laws
pub mod Alone
