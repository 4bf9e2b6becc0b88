pub mod Parts
pub mod Closures
pub mod Turned
pub mod Ranks
pub mod Lattices
pub mod Laws
pub mod Examples
