pub mod Border
pub mod Claims
pub mod Unique
