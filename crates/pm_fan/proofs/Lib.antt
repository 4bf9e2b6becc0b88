pub mod Examples
pub mod ExampleDims
pub mod LostCones
pub mod Tails
pub mod Kept
pub mod Refused
pub mod Forms
pub mod Turns
