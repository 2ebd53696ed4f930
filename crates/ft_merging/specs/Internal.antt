-- What a pass knows in the midst of a write of several entries. Only private functions and proofs cite it: none of it
-- is needed to say what a call does.
pub mod EntriesAtOnce
pub mod ThinningSteps
pub mod JoiningSteps
