pub mod Calls
pub mod Segments
pub mod Soundness
pub mod Counts
pub mod Sizes
pub mod Faults
pub mod Plans
pub mod Laws
