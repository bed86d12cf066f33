pub mod Examples
pub mod Fill
pub mod LayoutLaws
pub mod RoundTrip
pub mod WishLaws
