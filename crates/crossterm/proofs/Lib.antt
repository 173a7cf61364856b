pub mod Clipboards
pub mod CommandLooks
pub mod Commands
pub mod Printed
mod SizeLaws
pub mod StyleReadings
pub mod ValueLaws
