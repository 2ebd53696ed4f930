-- What reading keeps between two pieces, what the parser of command lines has met, what a script has come to that was
-- run, and what is counted of a history. Only private functions and proofs cite it: none of it is needed to say what
-- the tool does.
pub mod Summaries
pub mod Filling
pub mod Matched
pub mod ScriptRuns
