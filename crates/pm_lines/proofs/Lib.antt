pub mod Callers
pub mod Examples
pub mod LineLaws
pub mod Order
pub mod SoFar
