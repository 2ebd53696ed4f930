pub mod Readers
pub mod TwoLists
pub mod Writes
