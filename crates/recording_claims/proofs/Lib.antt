pub mod Firsts
pub mod Verdicts
pub mod Timing
pub mod Replaying
pub mod Keeping
pub mod Telling
pub mod Single
pub mod Claims
