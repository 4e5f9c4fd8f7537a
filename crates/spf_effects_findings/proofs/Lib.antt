pub mod Grown
pub mod Between
pub mod Then
pub mod Either
