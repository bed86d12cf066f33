pub mod Agreement
pub mod Causes
pub mod Completing
pub mod Decided
pub mod Example
pub mod First
pub mod Second
