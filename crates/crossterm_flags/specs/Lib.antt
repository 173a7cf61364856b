pub mod Bits
pub mod Names
pub mod Orders
pub mod Tables
pub mod Values
pub mod Variants
