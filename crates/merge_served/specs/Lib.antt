pub mod Served
pub mod Tallies
pub mod Told
