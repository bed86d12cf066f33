pub mod Laws
pub mod Left
pub mod Routes
