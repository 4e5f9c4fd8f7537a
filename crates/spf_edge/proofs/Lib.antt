mod Finding
mod Reading
pub mod Fetched
pub mod Taking
