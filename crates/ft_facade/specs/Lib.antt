pub mod Sessions
pub mod Sizes
pub mod Kept
