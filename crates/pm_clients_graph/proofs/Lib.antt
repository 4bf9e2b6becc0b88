pub mod OneSource
pub mod EdgeForms
pub mod Found
pub mod Answered
pub mod CountTurns
pub mod Examples
