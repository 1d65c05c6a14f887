pub mod HeldThrough
