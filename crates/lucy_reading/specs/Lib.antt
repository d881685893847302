pub mod Lines
pub mod Faults
pub mod Outcomes
pub mod Plans
pub mod Calls
