pub mod Cells
pub mod Counts
pub mod Kinds
pub mod Phases
pub mod Status
