pub mod Lists
pub mod Measures
pub mod Counted
pub mod Tables
