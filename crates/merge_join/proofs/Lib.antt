pub mod Blocks
pub mod Changed
pub mod Members
