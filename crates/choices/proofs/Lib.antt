pub mod Choices
pub mod Lists
pub mod Opposites
pub mod Order
