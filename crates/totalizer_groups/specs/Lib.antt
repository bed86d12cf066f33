pub mod Groups
pub mod Laws
