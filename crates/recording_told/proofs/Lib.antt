pub mod Firsts
pub mod Said
pub mod Letters
pub mod Lengths
pub mod Claims
pub mod Unique
