pub mod Arrays
pub mod Begun
pub mod Inner
pub mod Words
