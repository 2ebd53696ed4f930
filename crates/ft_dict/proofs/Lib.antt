-- reads of one key
mod Reading
-- what is left of a dict: another value, a key fewer, one more, the last pair
mod Leaving
mod Deleted
mod NewKeys
mod HeldSets
mod BoxedPuts
mod Popping
-- two dicts
mod CopiedDicts
mod Updated
-- calls under their locks
pub mod DictTries
