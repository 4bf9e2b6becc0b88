pub mod Commits
pub mod Transactions
