pub mod Reader
pub mod Walking
pub mod Rounds
pub mod Spots
pub mod Carried
pub mod Unique
