pub mod Keeping
pub mod Spans
pub mod FreshLaws
pub mod Pages
pub mod Pieces
