pub mod OrderedHistories
pub mod Internal
pub mod SeatedThreads
