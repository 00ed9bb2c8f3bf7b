pub mod Numbers
pub mod Signs
pub mod Forms
pub mod Whole
pub mod Limits
pub mod Places
