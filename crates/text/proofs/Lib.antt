pub mod Spelling
pub mod Laying
pub mod Unique
