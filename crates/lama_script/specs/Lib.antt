pub mod Numbers
pub mod Parsing
pub mod Ending
pub mod Totals
