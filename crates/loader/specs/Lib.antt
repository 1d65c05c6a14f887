pub mod Inner
pub mod Stages
pub mod Statuses
