pub mod Reports
pub mod Counted
pub mod Refusals
pub mod Columns
