pub mod Write
pub mod Writing
