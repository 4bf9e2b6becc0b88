pub mod RowSums
pub mod Optimum
pub mod Exact
pub mod Examples
