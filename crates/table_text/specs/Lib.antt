pub mod Printed
pub mod Shown
