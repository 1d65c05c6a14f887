pub mod Tabled
pub mod Roomy
pub mod Before
