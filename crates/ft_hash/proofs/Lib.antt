pub mod Cycles
pub mod Positions
pub mod Walks
