pub mod HeldFileJudging
pub mod HeldFileLeaving
pub mod Claims
pub mod Unique
