pub mod Counting
pub mod Words
pub mod PieceSizes
pub mod Coming
pub mod Hosts
pub mod Given
pub mod Tellings
pub mod Widths
