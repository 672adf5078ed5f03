-- A purge takes nothing that a live site still needs.
pub mod PurgeLists
pub mod PurgeNotes
pub mod PurgeSteps
pub mod PurgeModels
