pub mod Paged
pub mod Draft
pub mod Held
