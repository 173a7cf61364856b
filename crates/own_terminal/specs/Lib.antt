pub mod Features
pub mod Sessions
