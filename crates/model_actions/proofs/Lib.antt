pub mod Carried
pub mod Unique
