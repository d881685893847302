pub mod Mapping
pub mod Heard
pub mod Fed
