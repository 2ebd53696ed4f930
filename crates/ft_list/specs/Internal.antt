-- What a pass knows in the midst of a call on a list. Only private functions and proofs cite it: none of it is needed
-- to say what a call does.
pub mod NewListTables
pub mod Additions
pub mod Moving
pub mod Reversing
pub mod StoredBoxes
pub mod Carrying
