pub mod Cases
pub mod ByKind
pub mod Passing
pub mod Facts
pub mod Claims
pub mod Unique
