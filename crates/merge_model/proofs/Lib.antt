pub mod Lists
pub mod Entries
pub mod Publishers
pub mod Subscribers
pub mod Runs
pub mod Failing
pub mod Script
