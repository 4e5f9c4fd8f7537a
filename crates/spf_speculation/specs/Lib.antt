pub mod Steps
pub mod Runs
pub mod Laws
pub mod Prefixes
pub mod Statements
pub mod Alike
