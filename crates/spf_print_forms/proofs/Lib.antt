pub mod Printing
pub mod Repeating
