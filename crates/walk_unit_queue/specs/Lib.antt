pub mod Due
pub mod Queue
pub mod Reached
pub mod Steps
pub mod Theorems
