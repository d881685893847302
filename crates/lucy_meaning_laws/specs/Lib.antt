pub mod Meanings
pub mod Named
pub mod Laws
