pub mod Proper
pub mod Rest
pub mod Claims
pub mod Unique
