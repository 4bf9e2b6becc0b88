pub mod SameKind
pub mod Started
pub mod Meant
pub mod Foreign
pub mod ReadValues
pub mod ReadRows
pub mod Pairs
pub mod ViewLaws
pub mod Polytopes
pub mod Failing
pub mod Drafts
pub mod Puts
pub mod PlainValues
pub mod Machine
pub mod FreshOrders
pub mod Lost
pub mod NoRows
pub mod PrimitiveWholes
pub mod Examples
mod ThinningExamples
mod ProgramExamples
mod OptimumExamples
mod LatticeExamples
mod CellExamples
pub mod ConeExamples
