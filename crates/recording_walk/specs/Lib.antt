pub mod Inner
pub mod Lists
