pub mod Clause
pub mod Reads
pub mod Standing
