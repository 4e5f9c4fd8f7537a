pub mod Cells
pub mod Crossing
pub mod Tables
