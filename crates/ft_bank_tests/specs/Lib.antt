pub mod TestRounds
pub mod SmallestWrites
pub mod Working
pub mod OneBox
