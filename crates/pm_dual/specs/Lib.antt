pub mod Answers
pub mod Quotients
pub mod SearchObjectives
pub mod Exact
pub mod Examples
