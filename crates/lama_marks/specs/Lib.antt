pub mod Places
pub mod Narrow
