pub mod Spelled
pub mod Cases
