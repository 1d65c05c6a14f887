pub mod Passing
pub mod Rest
pub mod Sufficient
pub mod Unique
