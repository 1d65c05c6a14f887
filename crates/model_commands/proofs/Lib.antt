pub mod Unique
pub mod Carried
