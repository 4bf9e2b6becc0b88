pub mod Works
pub mod Degrees
pub mod Laws
pub mod Examples
