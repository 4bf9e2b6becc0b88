pub mod Told
pub mod Examples
pub mod Scripts
pub mod Runs
