mod Chosen
mod Choices
pub mod PartedSets
