pub mod Starting
pub mod Seeing
pub mod Judging
pub mod Unique
pub mod Longest
