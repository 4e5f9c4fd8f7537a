pub mod Tables
pub mod Scopes
pub mod Rows
