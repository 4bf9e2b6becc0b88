pub mod Values
pub mod CommonValues
pub mod Shown
pub mod Greatest
pub mod Slacks
pub mod Examples
