pub mod Root
pub mod Start
