pub mod ThreadDepths
mod Named
mod Made
pub mod ScriptFacts
pub mod WorkerLemmas
pub mod NextCalls
pub mod Between
pub mod Entries
pub mod WholeLists
mod LandedShapes
pub mod Noting
