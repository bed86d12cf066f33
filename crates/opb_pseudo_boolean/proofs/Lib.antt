pub mod Differences
pub mod Meaning
pub mod Sums
pub mod Variables
