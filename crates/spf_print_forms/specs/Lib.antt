pub mod Canonical
pub mod Printing
