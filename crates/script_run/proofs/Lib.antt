pub mod Laid
pub mod Answers
pub mod Runs
pub mod Lines
pub mod WholeScript
pub mod SameRuns
pub mod Claims
pub mod Unique
