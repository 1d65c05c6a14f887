pub mod Walks
pub mod Sums
pub mod Verdicts
pub mod Refusals
pub mod Unique
