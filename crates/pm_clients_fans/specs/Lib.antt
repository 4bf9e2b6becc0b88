pub mod Works
pub mod Cones
pub mod Numbers
pub mod Examples
