pub mod Reading
pub mod Expressions
pub mod Labels
pub mod Evaluation
pub mod Laws
pub mod Sessions
pub mod Keeping
pub mod Views
