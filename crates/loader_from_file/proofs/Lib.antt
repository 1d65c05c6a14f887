pub mod Filling
pub mod Judging
pub mod Leaving
pub mod Claims
pub mod Unique
