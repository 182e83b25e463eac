pub mod Columns
pub mod Keyed
pub mod Lists
