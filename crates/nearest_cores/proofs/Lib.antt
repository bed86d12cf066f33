pub mod Facts
pub mod NarrowRight
pub mod ScanRight
pub mod SearchRight
pub mod Taken
