pub mod SameAnswers
pub mod Claims
