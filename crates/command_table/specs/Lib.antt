pub mod Table
pub mod Actions
