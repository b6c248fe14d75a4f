pub mod OfPieces
pub mod Cover
