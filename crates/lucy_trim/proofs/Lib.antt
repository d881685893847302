pub mod Counts
pub mod Lists
pub mod Keeping
pub mod Naming
pub mod Stepping
