pub mod Told
pub mod Flattening
pub mod ToldFlat
pub mod Rows
pub mod Following
pub mod Growing
pub mod Reading
