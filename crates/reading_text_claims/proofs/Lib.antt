pub mod Letters
pub mod Lines
pub mod Formed
pub mod Taken
pub mod Tenths
pub mod ReadBack
pub mod Claims
