pub mod Tokens
pub mod Extremals
pub mod Records
pub mod Questions
pub mod Places
pub mod Readings
pub mod Answers
