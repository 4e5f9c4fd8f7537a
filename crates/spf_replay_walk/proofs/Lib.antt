mod InPlace
pub mod Sections
pub mod Verdicts
pub mod Passing
pub mod Walking
