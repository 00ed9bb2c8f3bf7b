pub mod Loads
pub mod Copies
pub mod Keeps
pub mod KeepsLaws
pub mod Pages
pub mod Spans
pub mod Writes
