pub mod Commands
pub mod Helps
pub mod Replies
pub mod Promise
