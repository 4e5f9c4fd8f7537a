pub mod Answered
pub mod Putting
