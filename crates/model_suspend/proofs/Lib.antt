pub mod SuspendedCycles
pub mod Claims
