pub mod Branch
pub mod BranchLaws
pub mod Pick
