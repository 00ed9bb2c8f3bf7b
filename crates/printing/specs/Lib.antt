pub mod Words
pub mod Carets
pub mod Layouts
pub mod Listings
