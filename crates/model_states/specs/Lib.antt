pub mod States
pub mod Inner
