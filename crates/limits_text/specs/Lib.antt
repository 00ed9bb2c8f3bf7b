pub mod Lines
pub mod Cells
pub mod Tables
pub mod Outcomes
pub mod Reports
pub mod Summaries
pub mod Lists
pub mod Promise
