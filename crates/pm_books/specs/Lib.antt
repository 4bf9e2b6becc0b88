pub mod Tokens
pub mod Reading
pub mod Grammar
pub mod Writing
pub mod Gives
pub mod Seen
pub mod SeenParts
