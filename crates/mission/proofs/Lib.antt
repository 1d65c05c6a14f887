pub mod Mission
