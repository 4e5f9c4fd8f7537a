pub mod Cuts
pub mod Digits
pub mod Pieces
pub mod Scanned
pub mod Spellings
pub mod Verdicts
pub mod Whole
