pub mod Books
pub mod Ends
pub mod Examples
pub mod Proved
pub mod Questions
pub mod Seen
pub mod Words
