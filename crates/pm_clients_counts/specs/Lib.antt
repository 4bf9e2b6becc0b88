pub mod Works
pub mod Places
pub mod Examples
