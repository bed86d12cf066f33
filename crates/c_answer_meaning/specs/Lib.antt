pub mod Laws
pub mod Meaning
pub mod Numbers
pub mod Readings
pub mod Replies
