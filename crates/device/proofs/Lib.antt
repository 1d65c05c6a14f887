pub mod Rows
pub mod Cover
pub mod BlockAddresses
pub mod TwoWidths
pub mod Claims
pub mod Unique
pub mod Halves
