pub mod FoundTruths
pub mod FoundFirsts
pub mod EachPlace
pub mod RowCounts
pub mod SetCounts
pub mod ZeroPlaces
mod Examples
