pub mod Blocks
pub mod Judging
pub mod Leaving
pub mod Unique
