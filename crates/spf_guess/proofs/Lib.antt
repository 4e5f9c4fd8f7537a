mod Best
mod Counts
pub mod Handed
mod Kept
pub mod Named
mod Stores
mod Tables
pub mod Votes
