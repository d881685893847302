pub mod Trees
pub mod Shapes
pub mod Expressions
pub mod Reachability
pub mod Laws
