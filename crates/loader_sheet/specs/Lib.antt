pub mod Hand
pub mod Sentences
