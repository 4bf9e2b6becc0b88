pub mod PrimitiveRows
pub mod Frame
pub mod Kept
pub mod Bits
pub mod WholeRows
pub mod Indices
pub mod OverFirst
pub mod OverOne
