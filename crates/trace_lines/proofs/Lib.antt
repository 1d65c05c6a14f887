pub mod Places
pub mod Runs
pub mod Forms
pub mod Claims
pub mod Unique
