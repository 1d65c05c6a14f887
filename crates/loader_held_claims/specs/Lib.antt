pub mod HeldMade
pub mod HeldEnds
