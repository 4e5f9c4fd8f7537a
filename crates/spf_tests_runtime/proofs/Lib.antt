pub mod CountingFold
pub mod Crossing
pub mod Examples
