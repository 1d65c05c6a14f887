pub mod Pairs
pub mod Order
