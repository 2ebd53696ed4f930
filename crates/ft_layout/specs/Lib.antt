pub mod Words
pub mod Sizes
pub mod Starts
pub mod Tables
pub mod Fields
pub mod WordChanges
pub mod Containers
pub mod TakenWords
