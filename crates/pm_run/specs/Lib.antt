pub mod Demo
pub mod DemoExamples
pub mod Chosen
pub mod Ends
pub mod Examples
pub mod Shipped
pub mod ShippedExamples
