pub mod Inversions
pub mod Prefixes
pub mod Walks
pub mod Taken
pub mod Order
