pub mod Meaning
pub mod Examined
pub mod Accepting
pub mod Making
