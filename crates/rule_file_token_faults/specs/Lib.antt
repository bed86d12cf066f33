pub mod Fault
pub mod Laws
