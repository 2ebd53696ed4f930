pub mod Internal
pub mod References
pub mod Making
pub mod Counting
pub mod Raising
pub mod Merging
