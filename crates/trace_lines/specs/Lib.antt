pub mod Lines
pub mod Inner
