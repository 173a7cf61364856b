pub mod Blocks
pub mod InFront
pub mod Queue
