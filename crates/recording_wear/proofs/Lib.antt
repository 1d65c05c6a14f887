pub mod CountCases
pub mod Unique
