pub mod Outcomes
pub mod Steps
pub mod Meanings
pub mod Plan
pub mod Position
pub mod Walk
pub mod Promise
