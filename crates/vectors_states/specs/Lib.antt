pub mod Letters
pub mod Cycles
pub mod Shown
