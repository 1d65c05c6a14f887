pub mod Addresses
pub mod Inner
pub mod Outs
pub mod Front
pub mod Ends
