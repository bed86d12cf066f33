pub mod Example
pub mod FileSize
pub mod Laws
pub mod Printed
pub mod Sizes
