-- What a pass knows in the midst of a call. Only private functions and proofs cite it: none of it is needed to say what
-- a call does.
pub mod Choosing
