pub mod Into
pub mod Root
