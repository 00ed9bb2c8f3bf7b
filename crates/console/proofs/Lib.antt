pub mod Ladders
pub mod Parts
pub mod Returning
pub mod Promising
