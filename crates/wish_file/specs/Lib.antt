pub mod Examples
pub mod Format
pub mod Layout
pub mod LayoutLaws
pub mod RoundTrip
pub mod WishLaws
pub mod Wishes
