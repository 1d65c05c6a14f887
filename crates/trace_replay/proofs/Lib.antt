pub mod Scans
pub mod Rounds
pub mod WholeTrace
pub mod Ends
pub mod ProperBench
pub mod Claims
pub mod Unique
