pub mod Guess
pub mod Statistics
