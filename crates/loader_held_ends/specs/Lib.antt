pub mod HeldMission
pub mod HeldLent
pub mod HeldStepping
pub mod HeldAnchors
