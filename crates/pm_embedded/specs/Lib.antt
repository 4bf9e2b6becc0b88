pub mod NoRows
