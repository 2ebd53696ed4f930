pub mod Hashes
pub mod Probes
