pub mod InLane
pub mod LaneLaws
pub mod Tickets
