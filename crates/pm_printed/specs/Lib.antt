pub mod Texts
pub mod Printed
pub mod Cuts
pub mod Labels
pub mod Judging
pub mod Readings
