pub mod Command
pub mod Examples
pub mod Spoken
pub mod Words
pub mod Order
