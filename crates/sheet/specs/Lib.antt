pub mod Faults
pub mod Reading
pub mod Line
pub mod Run
pub mod Texts
