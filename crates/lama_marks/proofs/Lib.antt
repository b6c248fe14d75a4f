pub mod Placed
pub mod Columns
