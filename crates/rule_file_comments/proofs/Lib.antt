pub mod ByLines
pub mod Calls
pub mod Headers
pub mod Moved
pub mod Preface
pub mod Shifted
pub mod Skipped
pub mod Text
