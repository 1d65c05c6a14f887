pub mod Entries
pub mod Rule
pub mod Claims
pub mod Unique
