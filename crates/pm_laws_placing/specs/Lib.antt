pub mod Placing
pub mod PlacedCells
pub mod LeastSums
pub mod Examples
