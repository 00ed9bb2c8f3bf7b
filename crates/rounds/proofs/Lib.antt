pub mod Rows
pub mod Bests
pub mod Lists
pub mod Backups
pub mod Settling
