pub mod Splits
pub mod Pieces
pub mod Numbers
pub mod Puts
pub mod Texts
