pub mod Laying
pub mod CondParts
pub mod PairParts
pub mod Lists
