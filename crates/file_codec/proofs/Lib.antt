pub mod Shifts
pub mod Tables
pub mod Told
pub mod Sizes
pub mod Outcomes
pub mod SliceParts
pub mod Answers
pub mod Unique
