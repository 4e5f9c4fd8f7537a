pub mod Found
pub mod Forms
pub mod Parts
pub mod Extends
