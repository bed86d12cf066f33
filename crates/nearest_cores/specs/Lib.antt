pub mod Cores
pub mod Facts
pub mod Narrow
pub mod NarrowRight
pub mod ScanRight
pub mod Search
pub mod SearchRight
