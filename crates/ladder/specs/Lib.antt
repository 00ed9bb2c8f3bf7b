pub mod Ladders
pub mod Laws
pub mod Refusals
pub mod Makes
