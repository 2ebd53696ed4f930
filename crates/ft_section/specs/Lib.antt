pub mod LockTakings
pub mod Ready
pub mod Locking
pub mod AnswerFacts
pub mod Sectioning
pub mod Trying
pub mod Floors
