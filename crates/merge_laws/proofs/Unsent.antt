-- The generations that a subscriber keeps with its rows say which changes it made.
pub mod Generations
pub mod Unsending
pub mod Changed
pub mod UnsentKept
