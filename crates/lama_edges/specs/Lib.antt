pub mod Placed
pub mod Table
