pub mod Rising
pub mod Ascending
pub mod Numbers
pub mod Place
pub mod Merging
pub mod Joined
pub mod Covers
