pub mod Clocks
pub mod Idle
pub mod SoFar
pub mod Showings
