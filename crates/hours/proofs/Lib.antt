pub mod Unique
pub mod Fitting
pub mod Minutes
