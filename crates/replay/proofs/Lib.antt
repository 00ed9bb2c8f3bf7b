pub mod StandingQuery
pub mod Playing
