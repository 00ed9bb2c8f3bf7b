pub mod Counts
pub mod Parts
