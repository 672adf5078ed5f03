pub mod Days
pub mod Decided
pub mod Moments
pub mod Serving
pub mod Tallies
pub mod Told
