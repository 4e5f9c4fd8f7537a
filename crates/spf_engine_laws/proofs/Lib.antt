pub mod Places
pub mod Fronts
pub mod Guesses
pub mod Performing
pub mod Passed
pub mod Tallies
pub mod Standing
pub mod Constructs
