pub mod Text
pub mod Patterns
