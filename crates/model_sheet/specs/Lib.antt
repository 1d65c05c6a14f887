pub mod Sheet
pub mod Sentences
