pub mod Wearing
pub mod Counting
pub mod Claims
