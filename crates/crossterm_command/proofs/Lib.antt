pub mod Handing
pub mod Readings
pub mod Rows
pub mod Taking
pub mod Texts
pub mod TokenLaws
