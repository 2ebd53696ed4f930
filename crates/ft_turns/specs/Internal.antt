-- The two parts of a turn, and what calls count. Only proofs cite it: none of it is needed to say what the order of
-- turns is.
pub mod Counting
pub mod TurnParts
