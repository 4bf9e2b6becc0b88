pub mod Readings
pub mod Grammar
pub mod Laws
pub mod Examples
pub mod Texts
