pub mod Chains
pub mod Parts
pub mod Readings
pub mod Formulas
