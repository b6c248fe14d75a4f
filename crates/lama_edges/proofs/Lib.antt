pub mod Placed
pub mod TableLemmas
