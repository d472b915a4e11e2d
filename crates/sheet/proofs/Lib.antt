pub mod Contexts
pub mod Fields
pub mod Readings
pub mod Running
pub mod Printing
pub mod Offsets
pub mod Spotted
