pub mod Marks
pub mod Certificate
pub mod Search
