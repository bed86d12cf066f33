pub mod Assigned
pub mod Looked
pub mod Looking
pub mod Loops
pub mod Propagated
pub mod Searching
pub mod Trail
pub mod Unit
