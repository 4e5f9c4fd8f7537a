pub mod Examining
pub mod Judging
pub mod Positions
pub mod Steps
pub mod Visiting
pub mod Walking
