pub mod Listing
pub mod Adding
pub mod Rising
pub mod Extras
pub mod Turning
pub mod HeldLoading
pub mod Unique
