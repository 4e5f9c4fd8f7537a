pub mod Scoping
pub mod Programs
