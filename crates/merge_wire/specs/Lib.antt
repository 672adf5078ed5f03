pub mod Fields
pub mod Heads
pub mod Messages
pub mod Faults
pub mod Written
pub mod Pieces
