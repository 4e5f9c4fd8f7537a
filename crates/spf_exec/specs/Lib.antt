pub mod Sources
pub mod Tables
pub mod BlockRuns
pub mod Pieces
pub mod Instances
