pub mod Columns
pub mod RightFaces
pub mod FaceForms
pub mod PairForms
pub mod HForms
pub mod Answered
mod Examples
