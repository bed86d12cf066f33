pub mod Deciding
pub mod Fixing
pub mod Refining
