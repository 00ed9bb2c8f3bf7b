pub mod Refusals
pub mod Runs
pub mod Settles
pub mod Backups
pub mod Ends
