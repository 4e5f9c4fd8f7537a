pub mod Bytes
pub mod Drawing
pub mod Errors
pub mod Simulating
