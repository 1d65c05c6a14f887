pub mod Looking
pub mod Unique
