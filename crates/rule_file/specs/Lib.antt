pub mod Accepted
pub mod Class
pub mod Format
pub mod RoundTrip
pub mod TokenLaws
pub mod Tokens
pub mod Written
