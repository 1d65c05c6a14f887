pub mod Rounds
pub mod WholeTrace
pub mod Notes
pub mod Unique
