pub mod Wears
pub mod Inner
