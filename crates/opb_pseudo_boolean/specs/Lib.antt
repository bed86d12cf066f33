pub mod Export
pub mod PseudoBoolean
pub mod Sums
pub mod Variables
