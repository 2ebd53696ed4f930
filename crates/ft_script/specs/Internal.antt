-- What the reader of transcripts has in hand between two steps. Only its private functions and its proofs cite it: none
-- of it is needed to say what a transcript is.
pub mod Outcomes
pub mod Candidates
pub mod Readers
pub mod Tokens
pub mod LikelyWords
