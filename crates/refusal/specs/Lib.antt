pub mod Laws
pub mod Passing
pub mod Reply
