pub mod Callers
pub mod Moves
pub mod Marks
pub mod Releases
pub mod Starts
pub mod Ends
pub mod Entering
pub mod Gathering
