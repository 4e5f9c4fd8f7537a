pub mod CountingFold
pub mod Digits
pub mod Examples
