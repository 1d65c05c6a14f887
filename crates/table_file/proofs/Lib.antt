pub mod AnswerCases
pub mod KnotsCounted
pub mod Unique
