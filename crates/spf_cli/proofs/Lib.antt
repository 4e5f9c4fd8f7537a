pub mod Lines
pub mod Puts
mod Batches
