mod Performing
mod Cutting
mod Ends
mod EnteredBlocks
mod Decided
mod Refused
mod PlainBlocks
mod Verdicts
mod Grouped
mod Alike
mod Polled
mod Following
mod Scheduled
mod Going
mod Replayed
mod Again
mod Recorded
mod Prefixes
mod Picking
pub mod Copies
pub mod Planned
pub mod Consistent
mod Apart
mod Pieces
mod Growing
mod Settled
mod Simulated
