pub mod Lowered
pub mod Settled
pub mod Ranges
pub mod Rounds
