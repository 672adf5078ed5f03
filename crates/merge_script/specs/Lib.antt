pub mod Input
pub mod Lines
pub mod Names
pub mod Parting
pub mod Words
