pub mod Appending
pub mod Owning
pub mod Returns
pub mod Words
pub mod Leading
pub mod Numbers
pub mod Scripts
