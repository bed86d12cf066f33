pub mod Laws
pub mod Write
pub mod Writing
