pub mod Sketches
pub mod Drawing
pub mod Walks
pub mod Entries
pub mod Laws
