pub mod Awaits
pub mod Boards
