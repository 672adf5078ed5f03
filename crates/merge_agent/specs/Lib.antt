pub mod Faults
pub mod Answers
pub mod Texts
pub mod Meetings
pub mod Turns
pub mod Sessions
