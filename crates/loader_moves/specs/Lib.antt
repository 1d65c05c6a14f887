pub mod Inner
pub mod Moves
