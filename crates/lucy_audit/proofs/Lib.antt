pub mod Agreeing
pub mod Apart
pub mod Places
pub mod Reaching
pub mod Reopening
pub mod Seating
pub mod Summing
