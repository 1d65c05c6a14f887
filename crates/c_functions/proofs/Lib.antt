pub mod Returned
pub mod Claims
pub mod Unique
pub mod Wears
