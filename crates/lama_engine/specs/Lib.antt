pub mod Asks
pub mod Faults
pub mod Ran
