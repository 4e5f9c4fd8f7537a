pub mod Entry
pub mod Attempts
pub mod Sites
