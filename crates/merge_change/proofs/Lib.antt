pub mod SortedRows
pub mod Lengths
pub mod Steps
pub mod FitsAfter
pub mod Whole
pub mod Places
