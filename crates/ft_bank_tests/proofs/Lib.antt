pub mod Reversing
pub mod Opening
pub mod OneBox
