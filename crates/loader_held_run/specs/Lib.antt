pub mod HeldTurns
pub mod Inner
pub mod HeldRuns
pub mod HeldPromises
