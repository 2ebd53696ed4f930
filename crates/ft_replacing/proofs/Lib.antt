pub mod Numbered
mod NumberedEntries
mod SharedTables
mod SharedDicts
mod CopiedBoxes
mod RaisedRows
mod NamedRows
mod KeptValues
mod OwnRows
pub mod PlainFills
mod Emptied
mod Swapped
mod Swaps
pub mod Replaced
pub mod Comings
