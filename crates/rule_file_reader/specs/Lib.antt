pub mod Answers
pub mod Exact
pub mod Passes
pub mod Read
