pub mod Choice
pub mod Lists
pub mod Bytes
pub mod Numbers
pub mod Pieces
pub mod Unique
