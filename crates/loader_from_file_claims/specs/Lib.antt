pub mod Through
pub mod Stored
