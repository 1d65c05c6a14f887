pub mod Apart
pub mod Widths
pub mod Claims
pub mod Unique
