pub mod Exact
pub mod Laws
pub mod Read
