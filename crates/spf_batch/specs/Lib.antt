pub mod Text
pub mod Batch
pub mod World
pub mod One
pub mod Many
pub mod Said
