pub mod Claims
pub mod Outside
