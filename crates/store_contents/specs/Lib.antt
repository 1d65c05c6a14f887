pub mod Contents
pub mod Inner
