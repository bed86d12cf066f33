pub mod Example
pub mod Problem
pub mod Read
pub mod ReadLaws
pub mod Room
pub mod Told
