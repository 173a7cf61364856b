pub mod Controls
pub mod Environment
pub mod Faults
pub mod Tokens
pub mod Writing
