pub mod Counts
pub mod Runs
pub mod Accounts
pub mod Errors
pub mod Handed
