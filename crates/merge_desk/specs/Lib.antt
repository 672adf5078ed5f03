pub mod Marks
pub mod Replay
pub mod Views
pub mod Comparing
pub mod OneThread
pub mod Working
pub mod Ending
pub mod Summary
