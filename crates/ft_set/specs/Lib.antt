-- the first element of a set
pub mod Firsts
-- what each call comes to under its locks
pub mod SetMaking
