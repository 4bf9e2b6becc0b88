pub mod RowLists
pub mod FoundDims
pub mod Halves
pub mod NullMatrices
pub mod PutMatrices
pub mod Examples
pub mod PutRays
pub mod FoundHulls
pub mod LostParts
pub mod LostThinning
pub mod FoundPlaced
pub mod FoundThinned
pub mod FailingThinned
pub mod PointLaws
pub mod RightRows
mod RedundancyExamples
mod LostListExamples
mod LostPartsExamples
mod LostThinnedExamples
