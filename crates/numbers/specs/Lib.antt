pub mod Event
pub mod Style
