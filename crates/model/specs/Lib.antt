pub mod Mdp
pub mod HoldLaws
