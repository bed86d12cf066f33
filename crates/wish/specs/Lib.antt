pub mod Laws
pub mod RowLaws
pub mod UnitWeights
pub mod Wish
