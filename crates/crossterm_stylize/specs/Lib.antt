pub mod Styling
