pub mod Events
pub mod Publication
pub mod Rest
pub mod Runs
pub mod Script
pub mod Steps
pub mod Summary
pub mod Worked
