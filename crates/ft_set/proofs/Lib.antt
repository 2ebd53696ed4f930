-- what is left of a set: an element fewer, one more, without the first
mod Leaving
mod NewKeys
mod Popping
-- two sets
mod TwoSets
mod Joins
-- calls under their locks
mod SetTries
