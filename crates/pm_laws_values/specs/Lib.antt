pub mod OneValue
pub mod Orders
pub mod FaceNumbers
pub mod Objects
pub mod Examples
pub mod Choosing
pub mod OrderExamples
