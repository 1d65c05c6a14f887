pub mod Polls
pub mod Waiting
pub mod Ending
pub mod Claims
pub mod Shown
