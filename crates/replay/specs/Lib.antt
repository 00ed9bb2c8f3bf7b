pub mod Standing
pub mod Replays
