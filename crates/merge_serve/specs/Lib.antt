pub mod Asking
pub mod Answers
pub mod Attending
pub mod Closing
pub mod Entering
