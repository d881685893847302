pub mod Boxes
pub mod Decisions
pub mod Empty
pub mod Spans
pub mod Shows
pub mod Denials
pub mod Leads
pub mod Finds
