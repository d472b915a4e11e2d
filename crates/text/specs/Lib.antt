pub mod Split
pub mod Number
pub mod Print
pub mod Cells
