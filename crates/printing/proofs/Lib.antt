pub mod Cutting
pub mod Laying
pub mod Texts
pub mod Counting
pub mod Errors
