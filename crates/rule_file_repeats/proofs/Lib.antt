pub mod Files
pub mod Meaning
pub mod Members
pub mod Once
pub mod Order
pub mod Skipped
