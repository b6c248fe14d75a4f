pub mod Rounds
pub mod Counts
