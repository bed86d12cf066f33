pub mod Due
pub mod Numbers
pub mod Order
pub mod Reached
pub mod Steps
pub mod Theorems
pub mod ReachedSettled
