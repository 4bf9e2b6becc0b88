pub mod Words
pub mod Rules
pub mod Chains
pub mod Books
pub mod Certificates
pub mod Laws
pub mod Steps
pub mod Useful
