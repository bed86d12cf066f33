pub mod Laws
pub mod NextToken
