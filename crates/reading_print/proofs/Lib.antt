pub mod Laying
pub mod Signed
pub mod Shown
pub mod Nearest
pub mod Claims
pub mod Unique
