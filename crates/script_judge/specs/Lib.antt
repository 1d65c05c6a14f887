pub mod Judges
pub mod Reads
pub mod Faults
pub mod Inner
