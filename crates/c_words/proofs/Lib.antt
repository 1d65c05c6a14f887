pub mod Claims
pub mod Counts
pub mod Packing
pub mod Signed
pub mod Unique
