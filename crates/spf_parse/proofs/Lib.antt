pub mod Counting
pub mod Programs
pub mod Texts
pub mod Verdicts
pub mod Writables
