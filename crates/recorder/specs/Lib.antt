pub mod Answering
pub mod Lines
pub mod Reads
pub mod Recording
pub mod Replaying
pub mod Stopping
pub mod inside
