pub mod Exact
pub mod Rewritten
pub mod Written
