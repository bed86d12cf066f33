pub mod Counters
pub mod Meaning
pub mod Rows
pub mod Totalizer
pub mod Trees
