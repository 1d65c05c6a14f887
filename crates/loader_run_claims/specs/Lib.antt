pub mod Wear
pub mod Made
pub mod Ends
pub mod Stepping
pub mod Mission
pub mod Lent
pub mod Anchors
