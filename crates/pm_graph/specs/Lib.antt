pub mod Slices
pub mod Levels
pub mod Tables
pub mod Edges
pub mod HVectors
pub mod Counts
pub mod Laws
pub mod Examples
