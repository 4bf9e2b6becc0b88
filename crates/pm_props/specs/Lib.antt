pub mod Rows
pub mod Properties
pub mod Places
pub mod Names
pub mod NameWords
pub mod Sets
pub mod Padded
pub mod Kinds
