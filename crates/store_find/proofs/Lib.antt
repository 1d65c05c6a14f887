pub mod Laying
pub mod Finding
pub mod Standing
pub mod Seeking
pub mod Reading
pub mod Unique
