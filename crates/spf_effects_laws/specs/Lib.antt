pub mod Ways
pub mod Keeping
