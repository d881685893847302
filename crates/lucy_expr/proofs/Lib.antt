pub mod TreeLaws
pub mod Flattening
