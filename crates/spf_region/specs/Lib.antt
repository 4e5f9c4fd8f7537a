pub mod Bounds
pub mod Between
pub mod Ranges
pub mod Merging
pub mod Spanning
pub mod Cells
pub mod Joining
pub mod Laws
