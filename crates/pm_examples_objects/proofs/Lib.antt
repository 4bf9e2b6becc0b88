mod HeldPrograms
mod Filing
mod Whole
mod LoadedAgain
mod Reading
pub mod Objectives
pub mod ProgramValues
pub mod Endless
