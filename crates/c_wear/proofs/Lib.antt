pub mod Claims
pub mod Unique
