pub mod Coming
pub mod Examples
pub mod Laws
pub mod Whole
