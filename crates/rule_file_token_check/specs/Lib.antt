pub mod Check
pub mod Laws
