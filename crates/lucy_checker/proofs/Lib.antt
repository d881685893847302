pub mod Soundness
pub mod FalseAtoms
pub mod HeldLemmas
pub mod KnownLemmas
pub mod ProgressLemmas
pub mod EarlierLemmas
