pub mod Laws
pub mod Literal
pub mod Slots
