pub mod Fetched
pub mod HeldKept
pub mod Unique
