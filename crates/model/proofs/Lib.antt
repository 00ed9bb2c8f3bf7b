pub mod Copies
pub mod Lists
pub mod Rows
