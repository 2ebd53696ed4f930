pub mod Replacing
pub mod Internal
pub mod Sharing
