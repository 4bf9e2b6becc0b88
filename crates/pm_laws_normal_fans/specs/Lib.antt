pub mod Sums
pub mod Fans
pub mod NormalFans
pub mod Shadows
pub mod FaceFans
pub mod Refinements
pub mod Laws
pub mod Examples
