pub mod Lookup
pub mod Propagation
pub mod Held
pub mod Checking
pub mod Checkers
