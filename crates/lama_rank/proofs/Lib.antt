pub mod Handing
pub mod Pieces
pub mod Recursion
pub mod Counting
pub mod ByBlock
