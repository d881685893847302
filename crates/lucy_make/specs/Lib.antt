pub mod Drills
pub mod Drawing
pub mod PlanTexts
pub mod Layout
pub mod Plans
pub mod Work
pub mod Steps
