pub mod Ones
pub mod Wears
pub mod Claims
pub mod Unique
