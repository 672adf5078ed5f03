pub mod Filling
pub mod Book
pub mod Plan
pub mod Retention
pub mod Entries
pub mod Index
pub mod Moves
