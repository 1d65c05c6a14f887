pub mod Sources
pub mod Touching
pub mod Recordings
pub mod Claims
