pub mod Verifying
pub mod LoadThenVerify
pub mod FirstDifference
pub mod Lent
pub mod Claims
