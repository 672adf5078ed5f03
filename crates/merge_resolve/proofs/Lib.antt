pub mod Changes
pub mod Asked
pub mod Tallies
pub mod FitLists
pub mod CountedRows
pub mod Ranges
