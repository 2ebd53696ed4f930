pub mod Counters
pub mod OneBox
pub mod Seeing
