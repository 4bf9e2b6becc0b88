pub mod State
pub mod Formed
pub mod Honest
pub mod Views
pub mod Reading
pub mod Laws
pub mod Known
