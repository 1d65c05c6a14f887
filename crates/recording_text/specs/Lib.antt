pub mod Texts
pub mod Written
pub mod Inner
