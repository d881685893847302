pub mod Bytes
pub mod Differing
pub mod Places
pub mod Texts
