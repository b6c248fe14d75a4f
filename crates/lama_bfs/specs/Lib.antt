pub mod Frontier
pub mod Flat
