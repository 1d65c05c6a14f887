pub mod HeldQuick
