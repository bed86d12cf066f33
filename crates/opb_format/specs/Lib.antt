pub mod Laws
pub mod Opb
pub mod Sizes
