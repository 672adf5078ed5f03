pub mod Causes
pub mod Keeping
pub mod Preparing
pub mod Reading
pub mod Writing
