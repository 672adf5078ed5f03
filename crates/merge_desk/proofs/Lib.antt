pub mod Differing
pub mod Entries
pub mod Lines
pub mod Matching
pub mod Numbers
pub mod OneThread
pub mod Sums
