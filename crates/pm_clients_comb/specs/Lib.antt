pub mod Incidence
pub mod Works
pub mod Examples
pub mod Sizes
