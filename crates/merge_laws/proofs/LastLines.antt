-- Mappings and generations are what the last lines say, and what of them is told and forgotten.
pub mod LastLineAdded
pub mod LastLineEntries
pub mod LastLineGone
pub mod LastLineNotes
pub mod LastLineSteps
pub mod LastLineReads
pub mod LeavingsSeen
pub mod LeavingsOwed
