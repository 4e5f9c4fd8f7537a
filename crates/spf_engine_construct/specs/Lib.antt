pub mod Guesses
pub mod Coming
