pub mod Accepted
pub mod Laws
pub mod RoundTrip
pub mod Sizes
pub mod Stored
pub mod TokenLaws
