pub mod Numbers
pub mod Sweeps
pub mod Lawful
pub mod Collections
pub mod PassesStay
