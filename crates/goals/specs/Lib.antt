pub mod Finishes
pub mod Scores
pub mod Greatest
pub mod Faults
pub mod ScoresLemmas
pub mod GreatestLemmas
pub mod Scoring
