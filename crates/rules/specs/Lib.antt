pub mod Values
pub mod Order
pub mod Faults
pub mod Parts
pub mod Marks
pub mod MarkLaws
pub mod PartsLemmas
pub mod Carried
