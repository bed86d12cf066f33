pub mod Answers
pub mod Exact
pub mod Fits
pub mod Meaning
pub mod Opposites
pub mod Searches
pub mod Twins
