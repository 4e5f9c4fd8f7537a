pub mod Faults
pub mod Entries
pub mod Fetches
pub mod Bytes
pub mod Puts
pub mod Memory
pub mod Streams
