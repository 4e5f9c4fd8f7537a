pub mod Examples
pub mod Effects
pub mod Gathered
pub mod Laws
