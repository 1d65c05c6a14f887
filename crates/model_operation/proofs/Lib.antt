pub mod LastCycle
pub mod Unique
