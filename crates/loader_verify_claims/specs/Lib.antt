pub mod Verified
pub mod LoadThenVerify
pub mod Lent
