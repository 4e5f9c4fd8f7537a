pub mod Bools
pub mod Members
pub mod Indices
