pub mod Told
pub mod FirstHeld
pub mod Programs
pub mod TellingExamples
