pub mod Rounds
pub mod Judging
pub mod Written
pub mod Claims
pub mod Unique
