pub mod PassesLeft
