mod Programs
pub mod Lifted
mod Marked
mod Inserted
mod Alone
mod Supported
mod Irredundant
mod Steps
mod Canonical
mod HalfSpaces
mod Refusals
mod SmallRows
mod SmallKeeping
