pub mod Ones
pub mod Runs
pub mod Saids
