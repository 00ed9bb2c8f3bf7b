pub mod Given
pub mod Numberings
pub mod Refusals
pub mod Requests
