pub mod Border
pub mod Claims
pub mod Outcomes
pub mod Unique
