pub mod Equal
pub mod Going
pub mod Unique
