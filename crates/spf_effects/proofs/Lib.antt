pub mod Gathering
pub mod Guessing
pub mod Listed
