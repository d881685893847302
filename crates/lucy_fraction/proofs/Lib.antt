pub mod Gcds
pub mod Ratios
