pub mod Words
pub mod Forms
pub mod Written
pub mod Claims
pub mod Unique
