pub mod Bits
pub mod Certified
pub mod Searching
pub mod Settling
pub mod Found
pub mod Told
