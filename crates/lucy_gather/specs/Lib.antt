pub mod Steps
pub mod Ranges
pub mod Scopes
pub mod Tables
pub mod Terms
pub mod Conditions
