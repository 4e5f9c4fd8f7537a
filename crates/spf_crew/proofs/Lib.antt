pub mod Endings
pub mod Steps
pub mod Crews
pub mod Filed
pub mod Turns
pub mod Joined
