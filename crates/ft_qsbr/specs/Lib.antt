pub mod Collecting
pub mod Sweeping
pub mod ReuseLaws
