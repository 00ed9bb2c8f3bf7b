pub mod Holds
pub mod HoldAnswers
