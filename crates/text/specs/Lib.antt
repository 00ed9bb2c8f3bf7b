pub mod Cuts
pub mod Fields
pub mod Words
pub mod Contents
pub mod Texts
pub mod Questions
pub mod Refusals
pub mod Faults
