pub mod Runs
pub mod ReadingLemmas
pub mod SameKinds
pub mod Fronts
pub mod Lengths
pub mod Cuts
pub mod Faults
pub mod FirstFaults
