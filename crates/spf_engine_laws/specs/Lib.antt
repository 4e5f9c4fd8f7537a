pub mod Traces
pub mod Passed
pub mod Progress
pub mod Laws
