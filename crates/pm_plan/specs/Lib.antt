pub mod Moves
pub mod Tracks
pub mod Searches
pub mod Plans
