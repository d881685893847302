pub mod Kind
pub mod Bytes
pub mod Front
pub mod Reading
pub mod Laws
