mod Seats
mod Suiting
mod Noting
mod HandedUp
pub mod Crossing
pub mod Refusals
