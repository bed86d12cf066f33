pub mod Files
pub mod Once
pub mod Skipped
