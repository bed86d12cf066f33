pub mod Adder
pub mod Laws
