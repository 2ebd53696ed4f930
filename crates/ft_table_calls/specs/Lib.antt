pub mod Adding
pub mod TriesUnderLocks
pub mod Dropping
