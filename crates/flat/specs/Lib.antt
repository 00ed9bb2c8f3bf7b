pub mod Flats
pub mod Drafts
pub mod Fresh
pub mod Readings
pub mod Reads
