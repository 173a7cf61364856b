pub mod Filters
pub mod Plain
