pub mod Same
pub mod Worded
