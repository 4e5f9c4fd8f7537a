pub mod Derivations
