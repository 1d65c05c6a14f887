pub mod Words
pub mod Listing
