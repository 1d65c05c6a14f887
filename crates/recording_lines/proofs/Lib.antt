pub mod SameLines
pub mod Spelled
pub mod Runs
pub mod Digits
pub mod Forms
pub mod Claims
pub mod Unique
