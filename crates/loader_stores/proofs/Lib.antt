pub mod Storing
pub mod Unique
