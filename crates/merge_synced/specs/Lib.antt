pub mod Answering
pub mod Courses
pub mod Cut
pub mod Synced
