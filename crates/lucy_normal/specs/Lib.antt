pub mod Linear
pub mod Fronts
pub mod Flat
pub mod Joints
pub mod Gathering
pub mod Normals
pub mod Shapes
pub mod Laws
