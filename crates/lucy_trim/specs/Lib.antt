pub mod Trimming
pub mod Uses
pub mod Steps
pub mod Laws
