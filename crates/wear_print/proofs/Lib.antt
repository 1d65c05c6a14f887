pub mod Laying
pub mod Unique
