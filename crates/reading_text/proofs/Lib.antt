pub mod Told
pub mod Walks
pub mod Unique
