pub mod Keeping
pub mod Rounds
