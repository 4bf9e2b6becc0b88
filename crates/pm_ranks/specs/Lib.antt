pub mod Chosen
pub mod Thirds
pub mod Laws
pub mod Examples
