pub mod SessionLemmas
pub mod StepLemmas
