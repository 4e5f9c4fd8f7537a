pub mod MemoryLaws
pub mod PlainMemory
pub mod QuietMemory
pub mod ReadMemory
pub mod Growing
pub mod Performs
pub mod Leaves
