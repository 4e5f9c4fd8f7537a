pub mod SlotSets
pub mod Settings
pub mod Sweeping
