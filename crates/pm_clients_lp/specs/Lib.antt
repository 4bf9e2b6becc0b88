pub mod Clients
pub mod Reading
pub mod Programs
pub mod Examples
