pub mod AnswerCases
pub mod Unique
