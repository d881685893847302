pub mod Lists
pub mod Knowing
pub mod Leading
pub mod Deriving
pub mod Passing
pub mod Hinting
