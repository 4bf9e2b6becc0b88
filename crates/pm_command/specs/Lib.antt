pub mod Lines
pub mod Words
pub mod Builders
pub mod Commands
pub mod Grammar
pub mod Examples
