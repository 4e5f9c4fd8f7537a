pub mod Performances
pub mod Rules
pub mod Freedom
pub mod Overwriting
