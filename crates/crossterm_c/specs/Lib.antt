pub mod Command
pub mod Feeding
pub mod Held
pub mod Outlet
pub mod State
pub mod Text
pub mod inside
