pub mod Numbered
pub mod Faults
