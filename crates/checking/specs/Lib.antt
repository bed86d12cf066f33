pub mod Check
pub mod Exact
pub mod Laws
