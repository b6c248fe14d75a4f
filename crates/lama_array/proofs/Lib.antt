pub mod Filled
pub mod Grown
pub mod Paged
pub mod Pushed
