mod Examples
pub mod Values
pub mod Makers
pub mod Ascending
pub mod Tracking
pub mod Search
pub mod Firsts
pub mod AllMet
pub mod Valid
pub mod Counts
pub mod KeyTexts
