pub mod Causes
pub mod Replies
pub mod Rewrite
pub mod Writing
