pub mod Tellings
pub mod Inner
