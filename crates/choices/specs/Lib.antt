pub mod Choices
pub mod Lists
pub mod Order
