pub mod Ledgers
pub mod LedgerLaws
pub mod Rows
