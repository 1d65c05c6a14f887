pub mod Stages
pub mod Going
pub mod Taking
pub mod Starting
pub mod Unique
