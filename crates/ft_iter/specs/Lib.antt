pub mod Seeking
pub mod Following
pub mod Moves
pub mod CursorCalls
