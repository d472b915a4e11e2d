pub mod Adding
pub mod Showing
pub mod Telling
