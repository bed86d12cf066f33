pub mod Past
pub mod Turn
