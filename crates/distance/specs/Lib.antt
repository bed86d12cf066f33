pub mod Distance
pub mod Laws
