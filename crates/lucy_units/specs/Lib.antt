pub mod Leads
pub mod Stores
pub mod States
pub mod Propagations
pub mod Hints
