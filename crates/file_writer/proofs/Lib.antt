pub mod SliceParts
pub mod Unique
