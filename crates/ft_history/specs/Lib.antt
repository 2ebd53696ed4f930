pub mod Verdicts
pub mod HistoryLaws
pub mod EnoughTables
pub mod Internal
