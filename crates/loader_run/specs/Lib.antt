pub mod Turns
pub mod Inner
pub mod Runs
pub mod Promises
