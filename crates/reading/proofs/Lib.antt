pub mod Handed
pub mod Told
pub mod Unique
pub mod WaysOut
