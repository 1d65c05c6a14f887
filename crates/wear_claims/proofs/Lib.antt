pub mod Agree
pub mod Lent
pub mod Claims
