pub mod ByLines
pub mod Calls
pub mod Headers
pub mod Lines
pub mod Moved
pub mod Preface
