pub mod FirstPlaces
pub mod Fitting
