pub mod Draws
pub mod Fates
pub mod Rooms
