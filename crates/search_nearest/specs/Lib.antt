pub mod First
pub mod Least
