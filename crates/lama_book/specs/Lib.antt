pub mod Book
pub mod Relation
pub mod Shown
