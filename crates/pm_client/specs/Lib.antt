pub mod Starts
pub mod Meanings
pub mod Sound
pub mod Examples
pub mod Fails
pub mod MeaningExamples
pub mod ForeignExamples
