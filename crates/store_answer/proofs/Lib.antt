pub mod Rounds
pub mod Unique
