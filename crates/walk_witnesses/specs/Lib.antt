pub mod Laws
pub mod Witnesses
