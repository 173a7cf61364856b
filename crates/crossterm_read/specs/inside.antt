pub mod Asking
pub mod Kinds
pub mod Limits
pub mod Numbers
pub mod Queues
pub mod Ready
pub mod Replies
pub mod Slot
