pub mod Fans
pub mod FoundFans
pub mod Shown
pub mod Examples
pub mod LostMaximalCones
