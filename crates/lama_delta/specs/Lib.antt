pub mod Seen
pub mod Pending
pub mod EdgeWrites
pub mod RowWrites
pub mod Sieve
