pub mod Redundancy
pub mod Keeping
pub mod Examples
