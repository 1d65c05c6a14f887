pub mod HeldFront
pub mod ByHand
