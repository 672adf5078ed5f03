pub mod Alone
pub mod Clocked
pub mod Changed
pub mod Shown
pub mod Taken
