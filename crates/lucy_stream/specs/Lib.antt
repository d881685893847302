pub mod Verifying
pub mod Hearings
pub mod Streams
pub mod Laws
