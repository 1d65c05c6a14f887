pub mod Pairs
pub mod Words
pub mod Widths
pub mod Spread
pub mod Claims
pub mod Unique
