pub mod Judging
pub mod Trials
pub mod Keeping
pub mod Judges
pub mod Laws
