pub mod Memories
pub mod Lanes
