pub mod Answered
pub mod Sized
pub mod SizeTurns
pub mod Examples
