pub mod Followed
pub mod Halves
pub mod Labels
pub mod NeededNames
pub mod Opens
pub mod Refutes
pub mod RowOrder
pub mod Tagged
