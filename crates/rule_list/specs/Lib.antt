pub mod Laws
pub mod ScanLaws
pub mod Scans
pub mod Sound
pub mod Stamps
