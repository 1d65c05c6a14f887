pub mod Border
pub mod Cycles
pub mod Claims
pub mod Unique
