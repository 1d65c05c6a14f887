pub mod Units
pub mod Address
