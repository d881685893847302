pub mod Deriving
