pub mod Lists
pub mod Behind
pub mod Counted
pub mod Tables
