pub mod Attempt
pub mod Fork
