pub mod Blocks
pub mod Parts
pub mod Inner
