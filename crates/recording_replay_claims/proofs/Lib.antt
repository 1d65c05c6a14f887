pub mod Steps
pub mod Lists
pub mod WholeTrace
pub mod Claims
