pub mod Thinning
pub mod Joining
pub mod Merging
pub mod Parting
pub mod Internal
