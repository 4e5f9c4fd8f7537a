pub mod Along
pub mod Overwrite
pub mod Cells
pub mod Extents
pub mod Slots
pub mod Quiet
pub mod Free
