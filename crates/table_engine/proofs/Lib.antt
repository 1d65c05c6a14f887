pub mod Agree
pub mod Claims
pub mod Told
pub mod Unique
