pub mod Helds
