pub mod Drawn
pub mod DrawnValues
pub mod WorkLemmas
pub mod StepLemmas
pub mod Laid
