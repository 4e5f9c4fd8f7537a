pub mod Decoders
mod Machines
pub mod Meanings
pub mod Lines
pub mod Steps
pub mod Verdicts
pub mod AtHand
mod Causes
pub mod Batches
pub mod Logs
