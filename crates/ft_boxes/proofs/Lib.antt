pub mod Steps
pub mod Heaps
pub mod CountSteps
pub mod TakenBoxes
