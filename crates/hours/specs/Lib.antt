pub mod Limits
pub mod Earliest
pub mod Window
pub mod Minutes
pub mod Faults
