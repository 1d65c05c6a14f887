pub mod Knots
pub mod Version
pub mod Words
