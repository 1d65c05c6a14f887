pub mod Table
pub mod Search
pub mod Faults
