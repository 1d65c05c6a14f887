pub mod Inner
pub mod Recordings
