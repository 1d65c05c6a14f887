pub mod Known
pub mod Records
