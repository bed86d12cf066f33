pub mod Laws
pub mod Report
