pub mod Accepting
pub mod Histories
pub mod Made
