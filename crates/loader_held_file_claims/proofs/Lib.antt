pub mod HeldThrough
pub mod Claims
