pub mod Adding
pub mod Computes
pub mod Decision
pub mod Flat
pub mod Lowering
pub mod Shifted
pub mod Tables
