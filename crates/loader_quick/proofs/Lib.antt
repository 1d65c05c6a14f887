pub mod Places
pub mod Loading
pub mod Comparing
pub mod Runs
pub mod Tested
pub mod Unique
