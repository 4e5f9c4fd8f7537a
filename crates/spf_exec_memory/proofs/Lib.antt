pub mod Growing
pub mod Steps
pub mod Turns
pub mod Leaving
pub mod Outcome
