pub mod Faces
pub mod Works
pub mod Numbers
pub mod Laws
pub mod Examples
