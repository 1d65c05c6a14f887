pub mod Bands
pub mod Claims
pub mod Unique
