-- what is found at a key, without the lock and with it
pub mod DictLooks
pub mod Locked
-- values that are put, and the last pair
pub mod Values
pub mod HeldSets
pub mod BoxedCalls
pub mod Lasts
-- copies to another dict
pub mod DictCopies
-- what each call comes to under its locks
pub mod DictMaking
