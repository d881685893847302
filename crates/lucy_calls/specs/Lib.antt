pub mod Fields
pub mod Lines
pub mod NextLines
pub mod Numbers
pub mod Steps
pub mod Work
pub mod Texts
pub mod Laws
