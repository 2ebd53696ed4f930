pub mod Workers
pub mod ClosedHistories
