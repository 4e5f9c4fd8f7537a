pub mod Lexemes
pub mod Parts
pub mod Rules
pub mod Reading
pub mod Texts
pub mod Derivations
