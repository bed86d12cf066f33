pub mod Laws
pub mod Opposed
pub mod Opposes
pub mod OpposesLaws
