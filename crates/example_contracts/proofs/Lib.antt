pub mod Apart
mod Recorded
