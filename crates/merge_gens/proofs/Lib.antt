pub mod ClosedGenerations
pub mod Moments
pub mod Plans
pub mod Sets
pub mod EntryLists
pub mod RowLists
