pub mod Formula
pub mod Laws
