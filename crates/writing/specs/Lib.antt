pub mod Reached
pub mod Wrote
