-- What stands of a thread between two turns. No contract that other crates use cites it.
pub mod CallerSeats
