pub mod Entries
pub mod Faults
pub mod Keeping
pub mod Opened
pub mod Parts
pub mod Stores
