pub mod TraceCases
pub mod Unique
