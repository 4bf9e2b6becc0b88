pub mod Laws
pub mod Examples
pub mod Folds
pub mod Sets
pub mod Table
pub mod Words
