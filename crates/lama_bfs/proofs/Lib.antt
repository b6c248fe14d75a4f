pub mod Marks
pub mod Rounds
pub mod FlatRows
pub mod Seen
