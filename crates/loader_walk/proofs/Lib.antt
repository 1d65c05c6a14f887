pub mod Walking
pub mod Unique
