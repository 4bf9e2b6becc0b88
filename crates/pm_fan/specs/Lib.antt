pub mod Dimensions
pub mod Fans
pub mod Conditions
pub mod Laws
pub mod Examples
