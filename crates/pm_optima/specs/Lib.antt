pub mod Objectives
pub mod Quotients
pub mod Examples
