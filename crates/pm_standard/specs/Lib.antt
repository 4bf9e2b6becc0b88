pub mod Ways
pub mod Table
pub mod Named
pub mod Book
