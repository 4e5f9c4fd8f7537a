pub mod Ending
pub mod Places
pub mod Missing
pub mod Passing
pub mod Stepping
pub mod Causes
