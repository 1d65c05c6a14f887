pub mod Counts
pub mod Leading
pub mod Busy
pub mod Suspended
pub mod Claims
