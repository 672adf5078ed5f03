pub mod Days
pub mod Ends
pub mod Stops
pub mod Stores
pub mod Written
