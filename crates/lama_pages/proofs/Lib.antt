pub mod Crosses
pub mod Fields
pub mod Memory
pub mod Records
