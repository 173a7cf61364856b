mod NormalForm
mod Orders
mod SameKeys
mod Variants
pub mod Lists
pub mod ValueLaws
