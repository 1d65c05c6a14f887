pub mod Survey
pub mod Inner
