pub mod Laws
pub mod Bytewise
pub mod Lent
pub mod Unique
