pub mod Causes
pub mod Claim
pub mod Decided
pub mod Second
