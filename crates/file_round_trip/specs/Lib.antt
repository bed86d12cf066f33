pub mod RuleFiles
pub mod Rules
pub mod WishFiles
pub mod Wishes
