pub mod HeldLoads
