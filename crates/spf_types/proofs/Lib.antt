pub mod Programs
pub mod SoundPrograms
pub mod UniquePrograms
pub mod FaultlessPrograms
pub mod Kept
pub mod Whole
