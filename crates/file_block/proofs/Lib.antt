pub mod Walks
pub mod Verdicts
pub mod Tables
pub mod Claims
pub mod Unique
