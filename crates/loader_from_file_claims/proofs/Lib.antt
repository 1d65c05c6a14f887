pub mod Through
pub mod Kept
pub mod Stored
pub mod Claims
