pub mod ClauseLaws
pub mod Laws
pub mod ListLaws
pub mod PartLaws
pub mod Weights
