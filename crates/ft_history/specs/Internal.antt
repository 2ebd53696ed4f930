-- What the judge keeps while it goes through a history. Only its private functions and its proofs cite it: none of it
-- is needed to say what a legal history is.
pub mod Accounts
pub mod States
pub mod Steps
