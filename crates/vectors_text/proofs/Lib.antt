pub mod Text
pub mod Patterns
pub mod Unique
