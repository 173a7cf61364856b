pub mod Apart
pub mod Recorded
